pub mod Lists
pub mod Forms
pub mod Numbered
pub mod Bank
pub mod Apart
pub mod Highest
