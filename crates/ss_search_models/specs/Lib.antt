pub mod Candidates
pub mod Tellings
pub mod Found
pub mod Keys
pub mod Said
pub mod Wholes
pub mod Facts
