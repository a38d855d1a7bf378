pub mod Exact
pub mod Passes
pub mod Sound
