pub mod Exchanged
pub mod Numbers
pub mod Stacks
pub mod Symbols
