pub mod Arms
pub mod Keeping
pub mod Leaving
pub mod Making
pub mod Spots
pub mod Ones
pub mod Returning
pub mod Settling
