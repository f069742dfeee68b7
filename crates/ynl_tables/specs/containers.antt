pub mod Table
pub mod Chains
pub mod Fields
