pub mod Readers
pub mod Loops
pub mod Suffix
