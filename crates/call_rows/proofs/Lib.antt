pub mod Counting
pub mod Settled
pub mod Room
