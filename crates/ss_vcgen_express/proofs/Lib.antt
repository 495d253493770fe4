pub mod Chaining
pub mod Grown
pub mod Listing
pub mod Marking
pub mod Contexts
