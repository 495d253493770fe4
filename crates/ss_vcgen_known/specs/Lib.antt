pub mod Assigns
pub mod Pairs
pub mod Sets
pub mod Steps
pub mod TellsFront
pub mod Views
