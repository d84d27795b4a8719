pub use Rattle.lc_terms.specs.Kind
pub mod Node
pub mod Rows
pub mod Extents
pub mod Build
pub mod Cover
pub mod Grown
