pub mod Declaring
pub mod Growing
pub mod Making
pub mod Meaning
pub mod Naming
