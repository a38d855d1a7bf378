pub mod Same
pub mod ReachLaws
pub mod PickLaws
pub mod TreeLaws
