pub mod Choosing
pub mod Searches
