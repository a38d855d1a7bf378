pub mod CappedLaws
pub mod Firsts
pub mod NullLaws
pub mod SizeLaws
pub mod WalkLaws
pub mod SecondLaws
pub mod RowCountLaws
