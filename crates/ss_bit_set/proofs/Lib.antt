pub mod Lists
pub mod Meets
pub mod All
