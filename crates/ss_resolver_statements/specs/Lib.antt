pub mod Forms
pub mod Alone
pub mod Boxes
pub mod Behind
