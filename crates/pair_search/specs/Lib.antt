pub mod Filling
pub mod Running
