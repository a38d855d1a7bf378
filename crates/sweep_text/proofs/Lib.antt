pub mod Bounds
pub mod Sweeps
pub mod Settled
