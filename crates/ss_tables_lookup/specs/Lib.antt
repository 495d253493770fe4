pub mod Classes
pub mod Codes
pub mod Places
pub mod Shelves
pub mod Views
pub mod Shelved
