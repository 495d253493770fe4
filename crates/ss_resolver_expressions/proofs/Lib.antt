pub mod PartIs
pub mod Loops
pub mod Done
pub mod Walked
