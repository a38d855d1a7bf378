pub mod Sweep
pub mod SweepReplies
pub mod WithoutIndex
