pub mod Classes
pub mod Once
pub mod Only
pub mod Told
