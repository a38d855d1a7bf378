pub mod Choices
pub mod Walking
