pub mod Settled
pub mod Readings
pub mod Judging
pub mod Showing
pub mod Open
pub mod Lent
pub mod Fits
