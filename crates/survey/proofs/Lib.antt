pub mod Tests
pub mod Sources
pub mod Weakest
