pub mod Paths
pub mod Uses
