pub mod Words
pub mod Contexts
