pub mod Answers
pub mod Settled
pub mod ReadBack
pub mod SameSheet
pub mod Unambiguous
