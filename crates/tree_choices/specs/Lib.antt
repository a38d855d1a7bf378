pub mod Wanted
pub mod Picks
pub mod Lows
