pub mod Numbers
pub mod Names
pub mod Expressions
pub mod Statements
pub mod Programs
