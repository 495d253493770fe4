pub mod Cancelling
pub mod Few
pub mod Networks
pub mod Values
