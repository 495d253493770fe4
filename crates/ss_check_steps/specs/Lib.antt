pub mod Numbered
pub mod Stack
