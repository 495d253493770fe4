pub mod Older
pub mod Changes
pub mod Settings
pub mod Inputs
