pub mod Sums
pub mod Written
pub mod Basics
pub mod Wholes
