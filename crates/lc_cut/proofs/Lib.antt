pub mod Building
pub mod LitLaws
pub mod Children
pub mod Rooted
pub mod Whole
pub mod SumLimits
pub mod NodeBounds
