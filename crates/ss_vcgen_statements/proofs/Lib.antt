pub mod Going
pub mod InContexts
pub mod Steps
pub mod Evaluated
