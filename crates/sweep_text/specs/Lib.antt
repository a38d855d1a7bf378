pub mod Answered
pub mod Bound
pub mod Sweep
pub mod Swept
