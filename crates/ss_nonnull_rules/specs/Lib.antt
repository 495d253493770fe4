pub mod Facts
pub mod NonNull
pub mod Faults
pub mod Overrides
pub mod Program
