pub mod Appending
pub mod Asked
pub mod Passing
pub mod Walks
