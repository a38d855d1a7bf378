pub mod Codes
pub mod Frames
pub mod Evens
pub mod Lists
