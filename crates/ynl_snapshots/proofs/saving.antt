pub mod Rows
pub mod Apps
pub mod Submissions
pub mod QueuePlaces
