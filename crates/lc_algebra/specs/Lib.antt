pub mod Greatest
pub mod Roots
