pub mod Asking
pub mod Coupling
pub mod Equations
pub mod Gathering
pub mod Grown
pub mod Numbering
