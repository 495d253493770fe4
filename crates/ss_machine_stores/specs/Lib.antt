pub mod Shapes
pub mod Firsts
pub mod Spans
pub mod Stops
