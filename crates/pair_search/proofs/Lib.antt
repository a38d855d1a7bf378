pub mod RunLaws
pub mod RoundLaws
