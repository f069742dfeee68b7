pub mod Unknown
pub mod Askers
pub mod Nodes
