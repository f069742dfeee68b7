pub mod Tallies
pub mod Fields
