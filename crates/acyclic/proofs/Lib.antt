pub mod Growth
pub mod Nulls
pub mod Chains
