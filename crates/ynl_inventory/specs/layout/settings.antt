pub mod Shares
pub mod Meaning
pub mod Fields
