pub mod Accepted
pub mod Exists
