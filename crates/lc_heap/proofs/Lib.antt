pub mod Digits
pub mod OrderLaws
pub mod Sifting
pub mod Opening
pub mod Taking
