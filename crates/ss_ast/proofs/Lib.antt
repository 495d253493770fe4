pub mod Grouping
pub mod Falls
pub mod Loops
