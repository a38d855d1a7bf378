pub mod Answered
pub mod Check
