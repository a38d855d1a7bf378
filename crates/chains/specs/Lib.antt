pub mod SpanLinks
pub mod Reaching
pub mod Chains
