pub mod Closed
pub mod Clashes
