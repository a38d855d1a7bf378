pub mod Memory
pub mod Turn
pub mod WrittenLaws
