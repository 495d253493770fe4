pub mod Again
pub mod Heads
pub mod Grammar
pub mod Parser
pub mod Written
pub mod Terms
