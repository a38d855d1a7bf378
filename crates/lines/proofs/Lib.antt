pub mod Small
pub mod Turning
pub mod KeyLaws
pub mod Widths
