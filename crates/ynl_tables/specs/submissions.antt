pub mod Submissions
pub mod Fields
