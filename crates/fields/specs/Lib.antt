pub mod Pieces
pub mod Words
pub mod Fields
pub mod Parts
pub mod Cursors
pub mod Three
