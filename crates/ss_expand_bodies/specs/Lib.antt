pub mod Conditions
pub mod Exposes
pub mod Origins
