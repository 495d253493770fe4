pub mod Shapes
pub mod Behind
