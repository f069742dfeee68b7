pub mod Again
pub mod Kept
pub mod Gathered
pub mod Passing
pub mod Right
pub mod Others
pub mod Audited
