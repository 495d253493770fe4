pub mod Faults
pub mod Wants
pub mod Calls
pub mod Expressions
pub mod Heads
pub mod Codes
