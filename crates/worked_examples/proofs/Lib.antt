pub mod Infixes
pub mod Chart
pub mod Verdicts
pub mod Enumerate
pub mod Table
pub mod Expanded
