pub mod Settled
pub mod Merging
