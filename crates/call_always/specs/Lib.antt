pub mod Always
pub mod Meaning
pub mod Replying
pub mod Clauses
pub mod ClauseMeaning
