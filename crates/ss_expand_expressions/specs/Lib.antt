pub mod Parameters
pub mod Views
pub mod Operands
pub mod Sources
pub mod Operators
