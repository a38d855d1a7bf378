pub mod Bytes
pub mod Claims
pub mod Patches
pub mod Expansions
