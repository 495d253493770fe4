pub mod Seeing
pub mod Listing
pub mod Naming
pub mod Owning
pub mod Framing
