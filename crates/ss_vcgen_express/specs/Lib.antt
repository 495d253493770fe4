pub mod Chains
pub mod Functions
pub mod Marked
pub mod Numbers
pub mod Sayings
pub mod Contexts
