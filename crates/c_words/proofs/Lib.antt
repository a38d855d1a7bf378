pub mod Words
pub mod Unpacking
