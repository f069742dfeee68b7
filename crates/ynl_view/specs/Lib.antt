pub mod nodes
pub mod evidence
