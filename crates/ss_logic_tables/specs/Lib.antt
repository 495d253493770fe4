pub mod Tabled
pub mod Elsewhere
pub mod Owned
pub mod Read
pub mod Spans
pub mod Conditions
