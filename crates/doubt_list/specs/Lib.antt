pub mod Entries
pub mod Given
pub mod Marks
pub mod Steps
