pub mod Parts
pub mod Positions
pub mod Contracts
pub mod Obligations
