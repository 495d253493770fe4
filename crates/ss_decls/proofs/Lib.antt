pub mod Collect
pub mod Readers
pub mod Terms
pub mod Files
