pub mod ValueLemmas
pub mod CornerLemmas
pub mod FanLemmas
pub mod UseLemmas
pub mod LibraryLemmas
pub mod ReadLemmas
pub mod LineLemmas
pub mod ValidMeshes
