pub mod Steps
pub mod Grounds
pub mod Choices
pub mod Waits
pub mod Laws
