pub mod Edges
pub mod Paths
