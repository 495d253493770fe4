pub mod Held
pub mod Builds
pub mod Joining
pub mod Within
