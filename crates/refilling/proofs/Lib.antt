pub mod TurnLaws
pub mod KeptLaws
