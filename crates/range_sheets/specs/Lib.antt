pub mod RangeLines
pub mod RangeSheets
pub mod Promises
