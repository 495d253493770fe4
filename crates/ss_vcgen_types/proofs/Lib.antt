pub mod Lookups
pub mod Grouping
pub mod Forms
pub mod Telling
pub mod Walking
pub mod Ending
pub mod Arrays
