pub mod Escapes
pub mod Opening
pub mod Constructors
pub mod Program
