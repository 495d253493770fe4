pub mod Chains
pub mod Endings
