pub mod Lists
pub mod Names
pub mod Climb
pub mod Classes
pub mod Equal
pub mod Way
pub mod Kept
pub mod Reasons
