pub mod Codes
pub mod Lists
pub mod Chain
pub mod Wholes
