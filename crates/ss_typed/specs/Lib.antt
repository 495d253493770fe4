pub mod Tree
pub mod View
pub mod Types
pub mod Parts
pub mod Shapes
pub mod Assigned
pub mod Constructors
pub mod Lookups
