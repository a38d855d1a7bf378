pub mod TableLaws
pub mod ChainLaws
pub mod CountLaws
pub mod ReachLaws
pub mod WordLaws
