pub mod Places
pub mod Summing
pub mod Weights
pub mod Quotients
