pub use Rattle.lc_num.specs.Vectors
pub use Rattle.lc_num.specs.Cosines
pub mod Triangles
pub mod Crossing
pub mod Hits
pub mod Points
pub mod Weights
