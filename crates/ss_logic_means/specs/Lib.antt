pub mod Means
pub mod Scenes
pub mod Sentences
pub mod Sorts
pub mod Bodies
pub mod Steps
pub mod Origins
pub mod Starting
