pub mod Siblings
pub mod Turns
