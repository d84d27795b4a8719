pub mod ValueLemmas
pub mod SourceLemmas
pub mod AreaLemmas
pub mod LineRanges
pub mod SampleLemmas
pub mod ReadLemmas
pub mod ValidLights
pub mod ShareLemmas
