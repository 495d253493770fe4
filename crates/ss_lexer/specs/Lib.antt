pub mod Lexemes
pub mod Pieces
pub mod Fronts
pub mod Reading
pub mod Steps
