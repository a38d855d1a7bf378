pub mod RuleLines
pub mod TokenLines
pub mod Turns
pub mod Keys
