pub mod Says
pub mod Sets
pub mod Firsts
pub mod Insertion
pub mod Either
