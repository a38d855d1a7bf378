pub mod Fits
pub mod Settled
