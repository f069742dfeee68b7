pub mod Idle
pub mod Livings
