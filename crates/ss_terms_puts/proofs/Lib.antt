pub mod Putting
pub mod Values
pub mod Lifting
pub mod Tables
pub mod Rising
