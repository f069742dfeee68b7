pub mod Told
pub mod Saved
