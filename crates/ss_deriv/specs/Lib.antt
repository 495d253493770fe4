pub mod Shape
pub mod Drafts
pub mod Lines
pub mod Trees
