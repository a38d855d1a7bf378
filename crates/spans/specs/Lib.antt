pub mod Changes
pub mod Reach
