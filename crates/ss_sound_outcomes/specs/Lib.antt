pub mod Points
pub mod Outcomes
