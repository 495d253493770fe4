pub mod Exprs
pub mod Stmts
pub mod Text
pub mod Afters
pub mod Groups
