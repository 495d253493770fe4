pub mod FieldNames
pub mod LocalTexts
pub mod NameTexts
