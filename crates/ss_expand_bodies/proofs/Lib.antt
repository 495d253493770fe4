pub mod ByClass
pub mod Meant
