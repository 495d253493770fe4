pub mod Builder
pub mod Built
