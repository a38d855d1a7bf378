pub mod Numbers
pub mod Places
pub mod Starting
pub mod Ending
