pub mod Composing
pub mod Growing
pub mod Holding
pub mod Chains
pub mod Readings
pub mod Trees
