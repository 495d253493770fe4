pub mod Found
pub mod Sought
pub mod Stack
