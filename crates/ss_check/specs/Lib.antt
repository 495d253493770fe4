pub mod Delayed
pub mod Within
