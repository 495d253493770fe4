pub mod Phases
pub mod Sources
pub mod CoreSources
pub mod Total
