pub mod Number
pub mod Slots
pub mod Kept
pub mod Lends
pub mod Chain
