pub mod Half
pub mod Drafts
pub mod Later
pub mod Marked
