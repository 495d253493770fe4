pub mod Linear
pub mod Parts
pub mod Table
pub mod Readings
pub mod Weighted
