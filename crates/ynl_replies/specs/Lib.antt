pub mod Pending
pub mod admission
