pub mod Walks
pub mod Arguments
pub mod Constructors
