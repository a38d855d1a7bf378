pub mod Placing
pub mod Settled
pub mod Paper
