pub mod Clauses
pub mod Beginnings
pub mod Limited
pub mod Steps
pub mod Bodied
