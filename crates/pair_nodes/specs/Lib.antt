pub mod Slots
pub mod Putting
