pub mod Levels
pub mod Declared
pub mod ByNumber
pub mod Chains
pub mod Fields
pub mod Single
