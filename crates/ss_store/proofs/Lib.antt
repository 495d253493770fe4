pub mod Loops
mod Lookups
pub mod NewSlots
pub mod Numbers
pub mod Packs
pub mod Rooms
mod Keeping
mod Groups
mod Members
pub mod FirstLocals
pub mod Undergone
pub mod Filed
