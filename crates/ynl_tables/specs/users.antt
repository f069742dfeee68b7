pub mod Users
pub mod Fields
