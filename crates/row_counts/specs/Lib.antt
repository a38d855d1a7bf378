pub mod Capped
pub mod RowCounts
pub mod Nulls
pub mod Walks
pub mod Seconds
pub mod Telling
