pub mod Literals
pub mod Index
pub mod Fields
pub mod Said
