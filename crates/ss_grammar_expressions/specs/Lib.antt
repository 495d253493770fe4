pub mod First
pub mod Heads
pub mod Grammar
pub mod Parser
pub mod Ends
pub mod Written
