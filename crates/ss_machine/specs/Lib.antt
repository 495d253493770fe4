pub mod Frames
pub mod Moves
pub mod Ends
pub mod Pieces
