pub mod Paths
pub mod Fields
pub mod Building
pub mod settings
