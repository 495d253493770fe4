pub mod Seen
pub mod Codes
pub mod Paths
pub mod Called
