pub mod Behind
pub mod Bodies
