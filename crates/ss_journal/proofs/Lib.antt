pub mod Undo
pub mod Marks
pub mod Links
pub mod Running
