pub mod PlaceLines
pub mod Settled
