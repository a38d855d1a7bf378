pub mod InOrder
pub mod PaperLaws
pub mod PlaceLaws
pub mod ListLaws
pub mod Samples
