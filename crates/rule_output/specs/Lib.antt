pub mod Signs
pub mod Emitting
