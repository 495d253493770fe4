pub mod Known
pub mod Following
pub mod Looks
pub mod Groups
pub mod Models
