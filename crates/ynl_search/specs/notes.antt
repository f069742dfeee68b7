pub mod Notes
pub mod Lanes
pub mod Shut
pub mod Laws
pub mod Upkeep
