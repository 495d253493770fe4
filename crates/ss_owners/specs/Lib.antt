pub mod Parts
pub mod Marked
pub mod Bearers
pub mod Reads
