pub mod Scale
pub mod Map
pub mod Words
pub mod Meant
pub mod Outcome
pub mod Runs
pub mod Mapped
