pub mod Summing
pub mod Contradicting
pub mod WholeSums
