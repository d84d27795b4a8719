pub mod HitLemmas
pub mod SurfaceLemmas
pub mod SpotLemmas
pub mod SampleLemmas
pub mod NormalLemmas
