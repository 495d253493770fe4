pub mod Choices
pub mod Opening
pub mod Views
pub mod Matches
