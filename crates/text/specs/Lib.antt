pub mod Given
pub mod Input
pub mod Output
pub mod Parting
pub mod Printed
