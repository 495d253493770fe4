pub mod Contexts
pub mod Made
pub mod Fronts
pub mod Operations
pub mod Lefts
