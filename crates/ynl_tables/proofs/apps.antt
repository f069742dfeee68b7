pub mod Places
pub mod Asking
pub mod Chaining
pub mod Rows
pub mod Taking
