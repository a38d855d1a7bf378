pub mod Dominance
