pub mod Solving
pub mod Truths
pub mod Unmoved
