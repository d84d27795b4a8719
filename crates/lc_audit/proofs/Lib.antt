pub mod Strides
pub mod Finding
pub mod SampleLemmas
pub mod Promises
