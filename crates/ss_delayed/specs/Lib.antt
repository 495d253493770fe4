pub mod Parts
pub mod Walked
pub mod Openings
pub mod Implied
