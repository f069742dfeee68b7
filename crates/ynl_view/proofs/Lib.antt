pub mod Seen
pub mod Unstamped
