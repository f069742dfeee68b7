pub mod Added
pub mod Measured
mod Steps
