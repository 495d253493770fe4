mod ValueExamples
pub mod Agreeing
pub mod Levels
pub mod FieldPlaces
pub mod Overrides
pub mod Admissible
mod AdmissibleExamples
mod Examples
pub mod Objects
pub mod Typed
pub mod Arrays
pub mod Looks
pub mod Unpack
pub mod Pack
pub mod Regroup
pub mod Write
pub mod Element
pub mod Defaults
pub mod New
pub mod Ready
pub mod Owners
pub mod StaysGood
mod FormedExamples
mod FormedProgram
mod FormedCounter
pub mod Keeps
