pub mod Equal
pub mod Names
pub mod Classes
pub mod Whole
pub mod Reasons
