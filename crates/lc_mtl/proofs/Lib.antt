pub mod DraftLemmas
pub mod FindLemmas
pub mod FileLemmas
pub mod ReadLemmas
pub mod ValidMaterials
