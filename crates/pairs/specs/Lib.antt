pub mod Survey
pub mod Strength
pub mod Shapes
pub mod Relations
pub mod Settings
pub mod Facts
pub mod Doubts
pub mod Always
