pub mod Sources
pub mod Closing
