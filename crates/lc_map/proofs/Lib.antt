pub mod Greatest
pub mod Shares
pub mod Places
pub mod Written
pub mod Running
