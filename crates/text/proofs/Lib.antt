pub mod PartingLaws
pub mod Within
pub mod Settled
