pub mod Searching
pub mod Swept
pub mod Cleared
