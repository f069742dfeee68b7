pub mod Shares
pub mod Limits
pub mod Raised
