pub mod Answers
pub mod Verdict
pub mod Trees
pub mod Counted
pub mod Results
