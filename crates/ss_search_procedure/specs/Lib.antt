pub mod Decisions
pub mod Answers
pub mod Ground
pub mod Starting
