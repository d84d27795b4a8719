pub mod Words
pub use Rattle.rand_pcg.specs.Lcg
