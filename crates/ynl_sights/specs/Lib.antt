pub mod Sights
pub mod Rows
pub mod SightFields
pub mod Copying
pub mod Lists
pub mod Planning
