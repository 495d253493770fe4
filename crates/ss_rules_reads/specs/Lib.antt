pub mod Placed
pub mod Changes
pub mod Captured
pub mod Joined
pub mod New
