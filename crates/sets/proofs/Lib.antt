pub mod Basics
pub mod Says
pub mod Sets
pub mod Bits
