pub mod Scenes
pub mod Turns
