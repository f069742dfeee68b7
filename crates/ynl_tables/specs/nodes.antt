pub mod Nodes
pub mod Numbers
pub mod Fields
