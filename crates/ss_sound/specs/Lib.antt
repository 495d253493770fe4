pub mod Decided
pub mod Safe
pub mod Verdicts
