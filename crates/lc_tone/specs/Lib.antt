pub use Rattle.lc_num.specs.Roots
pub use Rattle.lc_num.specs.Channels
pub mod Tone
pub mod Picture
