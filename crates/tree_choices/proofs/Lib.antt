pub mod PickLaws
pub mod Pending
pub mod LowLaws
pub mod PreferLaws
