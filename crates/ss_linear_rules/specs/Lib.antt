pub mod Few
pub mod Nodes
pub mod Two
pub mod Valued
