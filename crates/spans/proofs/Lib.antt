pub mod Places
pub mod ChangeLaws
pub mod Uniqueness
