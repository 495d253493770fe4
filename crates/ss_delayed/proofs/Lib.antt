pub mod Added
pub mod Walking
pub mod Runs
pub mod Blocks
pub mod Constructing
pub mod Implying
pub mod Whole
