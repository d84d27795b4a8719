pub mod Reflecting
