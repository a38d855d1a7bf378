pub mod Lists
pub mod Putting
