pub mod Frame
pub mod States
pub mod Steps
pub mod Runs
pub mod Ends
pub mod Good
