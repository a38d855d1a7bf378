pub mod Pick
pub mod Pieces
pub mod Fields
pub mod Lines
pub mod Cuts
pub mod Three
