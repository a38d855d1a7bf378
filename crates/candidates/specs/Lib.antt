pub mod Terminals
pub mod Arrays
pub mod Succession
pub mod Windows
pub mod Spelling
