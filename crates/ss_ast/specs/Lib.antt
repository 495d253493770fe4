pub mod Tokens
pub mod Expressions
pub mod Parts
pub mod Statements
pub mod Programs
