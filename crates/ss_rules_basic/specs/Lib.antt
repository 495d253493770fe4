pub mod Arguments
pub mod Facts
pub mod Plans
pub mod Looks
