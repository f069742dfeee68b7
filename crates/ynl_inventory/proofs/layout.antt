pub mod Filled
pub mod Lines
pub mod LastNames
pub mod Children
pub mod Ways
pub mod Finding
