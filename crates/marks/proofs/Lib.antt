pub mod Words
pub mod HalfLaws
pub mod DraftLaws
pub mod Columns
pub mod Pairings
pub mod Joining
