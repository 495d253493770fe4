pub mod Declaring
pub mod Gathering
pub mod Instances
pub mod Joining
