pub mod Sets
pub mod Paths
pub mod Fields
pub mod Assigned
pub mod Opening
