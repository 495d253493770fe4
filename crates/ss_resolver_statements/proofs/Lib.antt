pub mod Alones
pub mod Left
pub mod Governed
pub mod Blocks
