pub mod LocalContext
pub mod Environments
