pub mod Names
pub mod Numbering
pub mod Changes
