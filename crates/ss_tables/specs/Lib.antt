pub mod Words
pub mod Members
pub mod Classes
pub mod Types
pub mod Named
pub mod Scopes
pub mod Statics
