pub mod Finding
pub mod Growing
pub mod Sought
pub mod Stacks
