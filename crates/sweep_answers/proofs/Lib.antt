pub mod SweepSettled
pub mod Readings
pub mod Sweeping
pub mod Lent
pub mod Few
