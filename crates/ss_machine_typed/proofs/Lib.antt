pub mod Older
pub mod Changes
pub mod Slots
pub mod Outcomes
pub mod Sound
pub mod Ready
pub mod First
