pub mod Guarding
pub mod Turning
pub mod Learning
pub mod Spread
pub mod Resolving
pub mod Beside
pub mod Shown
pub mod Parts
