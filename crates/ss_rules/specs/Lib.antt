pub mod Instances
pub mod AreMade
pub mod Said
pub mod Comes
pub mod Grounds
