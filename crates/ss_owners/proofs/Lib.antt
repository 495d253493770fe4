pub mod Added
pub mod Reading
pub mod Marking
pub mod Excluding
pub mod Entries
