pub mod DoubtLines
pub mod Settled
