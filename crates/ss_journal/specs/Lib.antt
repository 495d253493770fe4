pub mod Shapes
pub mod Undo
pub mod Marks
pub mod Saved
pub mod Places
