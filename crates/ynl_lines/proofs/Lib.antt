pub mod RoundTrip
pub mod Texts
pub mod Lists
pub mod ReplyTrip
pub mod Escapes
pub mod Compacted
pub mod Added
pub mod Clean
