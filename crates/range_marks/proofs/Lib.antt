pub mod Stretching
pub mod Bounds
pub mod Unmoved
