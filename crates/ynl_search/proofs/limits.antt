pub mod Rounded
pub mod UserLimit
