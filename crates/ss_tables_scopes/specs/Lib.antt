pub mod Names
pub mod Locals
pub mod Views
