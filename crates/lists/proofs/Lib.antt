pub mod Entries
pub mod Settled
