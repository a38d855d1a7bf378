pub mod Scene
pub mod Steps
pub mod Given
