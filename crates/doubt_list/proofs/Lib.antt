pub mod Doubting
pub mod ListLaws
pub mod Going
pub mod Settled
pub mod ReadRule
