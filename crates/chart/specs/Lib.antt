pub mod Leaves
pub mod Filling
pub mod Openness
pub mod Sheets
