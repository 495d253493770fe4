pub mod Bareness
pub mod Leaving
pub mod Listed
pub mod Readings
