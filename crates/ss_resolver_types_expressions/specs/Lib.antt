pub mod Ends
pub mod Statements
pub mod Members
pub mod Programs
