pub mod Kept
pub mod Marks
pub mod Lists
pub mod Sums
pub mod Sightings
pub mod Alone
