pub mod Walking
pub mod Arguments
pub mod Points
pub mod Shapes
pub mod Statements
pub mod Initials
pub mod Naming
pub mod Wholes
