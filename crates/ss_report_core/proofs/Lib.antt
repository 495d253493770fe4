pub mod Chains
pub mod Written
pub mod ExprTexts
pub mod BodyGroups
pub mod ClassSteps
