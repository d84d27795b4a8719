pub mod CrossingLaws
pub mod CrossingPoint
pub mod CrossingCode
pub mod Depths
pub mod Nearest
pub mod BlockedBy
