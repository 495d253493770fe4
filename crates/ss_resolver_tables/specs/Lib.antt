pub mod Limits
pub mod Starts
pub mod Slots
