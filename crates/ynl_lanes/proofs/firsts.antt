pub mod Aligned
pub mod Ordered
pub mod Places
pub mod Searched
