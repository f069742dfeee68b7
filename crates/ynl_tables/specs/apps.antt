pub mod Asks
pub mod Chains
pub mod Apps
