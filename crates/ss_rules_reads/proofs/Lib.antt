pub mod Instances
pub mod Captures
pub mod Joins
