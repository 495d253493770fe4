pub mod Noted
pub mod Shelving
