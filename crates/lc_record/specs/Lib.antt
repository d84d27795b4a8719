pub use Rattle.lc_num.specs.Channels
pub use Rattle.lc_num.specs.Faults
pub use Rattle.lc_num.specs.Rules
pub mod Record
pub mod Reading
pub mod Pieces
pub mod Readings
