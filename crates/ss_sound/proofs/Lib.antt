pub mod Complete
pub mod Lists
pub mod Whole
