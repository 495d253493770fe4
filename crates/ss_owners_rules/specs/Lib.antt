pub mod Words
pub mod Admissible
pub mod Attributes
pub mod Program
