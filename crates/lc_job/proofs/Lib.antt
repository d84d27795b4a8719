pub mod KeyLemmas
pub mod DraftLemmas
pub mod LineLemmas
pub mod FinishLemmas
pub mod ReadLemmas
pub mod ValidJobs
pub mod StopLemmas
