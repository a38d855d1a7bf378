pub mod Replies
pub mod Settled
pub mod Means
pub mod Clearing
