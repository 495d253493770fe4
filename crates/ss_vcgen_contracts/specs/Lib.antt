pub mod Seen
pub mod Names
pub mod Owned
pub mod Views
