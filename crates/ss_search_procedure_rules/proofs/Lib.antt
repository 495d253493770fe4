pub mod Open
pub mod Occurring
pub mod Told
pub mod Sums
pub mod Models
pub mod Unmet
pub mod Fitting
pub mod Facts
