pub mod Places
pub mod RulePlaces
pub mod Views
pub mod Completeness
pub mod Soundness
