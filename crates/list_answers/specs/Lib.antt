pub mod Lists
pub mod ListReplies
