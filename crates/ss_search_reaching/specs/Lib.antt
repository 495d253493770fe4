pub mod Reaching
pub mod Units
pub mod Turns
pub mod Refuting
