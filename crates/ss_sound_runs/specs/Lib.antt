pub mod Stacks
pub mod Served
pub mod Frames
pub mod Passed
