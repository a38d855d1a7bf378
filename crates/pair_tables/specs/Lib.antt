pub mod Reading
pub mod Stepping
