pub mod Kept
pub mod Turning
