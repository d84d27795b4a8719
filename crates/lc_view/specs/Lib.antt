pub use Rattle.lc_num.specs.Vectors
pub use Rattle.lc_num.specs.Cosines
pub mod Camera
pub mod Samples
