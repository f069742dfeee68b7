pub mod Counts
pub mod Nodes
