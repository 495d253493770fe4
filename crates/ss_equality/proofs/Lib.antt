pub mod Lists
pub mod Steps
pub mod Found
pub mod Renaming
pub mod Telling
pub mod Entering
pub mod Keeping
pub mod FirstTerms
