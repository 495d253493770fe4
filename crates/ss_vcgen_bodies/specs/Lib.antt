pub mod Words
pub mod CallWords
