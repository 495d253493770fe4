pub mod Building
pub mod Trees
