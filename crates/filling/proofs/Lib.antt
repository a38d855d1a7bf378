pub mod SettleLaws
pub mod ClosingLaws
