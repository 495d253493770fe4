pub mod Limits
mod Said
