pub mod Meanings
pub mod Ran
pub mod Whole
pub mod Says
pub mod Inputs
