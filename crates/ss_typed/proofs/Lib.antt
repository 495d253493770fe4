pub mod Grouping
pub mod Falls
pub mod OwnFields
pub mod ByClass
