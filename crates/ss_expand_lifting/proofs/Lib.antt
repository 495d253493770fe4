pub mod Joins
pub mod Leaves
pub mod Links
pub mod Forms
pub mod Arms
pub mod Sizes
pub mod Codes
pub mod Statements
