pub mod Good
pub mod Named
