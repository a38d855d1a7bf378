pub mod CallSheets
pub mod OneField
pub mod Inside
