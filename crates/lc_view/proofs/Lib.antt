pub mod RayLemmas
pub mod SampleLemmas
