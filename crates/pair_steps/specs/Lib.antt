pub mod Nodes
pub mod Leaving
pub mod Tokens
pub mod Tables
pub mod Suiting
pub mod Ranks
pub mod Closing
