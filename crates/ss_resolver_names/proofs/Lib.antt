pub mod Above
pub mod Counting
pub mod Kept
pub mod Targets
