pub mod Changed
pub mod Relaid
