pub mod Turns
pub mod Looking
pub mod Answers
