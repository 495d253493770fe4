pub mod Phases
