pub mod Settled
pub mod TooLong
