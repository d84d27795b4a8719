pub mod LoopLemmas
pub mod ShortLemmas
