pub mod Adding
pub mod Leaves
