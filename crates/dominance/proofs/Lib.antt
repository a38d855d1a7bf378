pub mod LeftSets
pub mod Renaming
