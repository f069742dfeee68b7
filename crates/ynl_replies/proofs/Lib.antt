pub mod Sorted
pub mod Following
pub mod Apps
pub mod QueuePaths
