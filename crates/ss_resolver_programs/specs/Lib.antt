pub mod Locals
pub mod Terms
pub mod Parts
