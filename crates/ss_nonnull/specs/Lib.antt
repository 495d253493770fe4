pub mod Walks
pub mod Initial
pub mod Names
