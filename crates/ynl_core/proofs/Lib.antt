mod Stepping
mod Accepted
mod Known
mod Explaining
mod Sighting
pub mod RunMore
mod Alone
mod Copied
pub mod Listing
