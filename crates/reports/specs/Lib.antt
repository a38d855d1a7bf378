pub mod Reports
pub mod Rests
