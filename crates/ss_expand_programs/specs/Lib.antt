pub mod Constructing
pub mod Declaring
pub mod Inherited
pub mod Limits
pub mod Loops
pub mod Opening
pub mod Returns
pub mod Written
