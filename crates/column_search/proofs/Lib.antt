pub mod Flagging
pub mod Searching
pub mod Few
