pub mod Places
pub mod Shaped
