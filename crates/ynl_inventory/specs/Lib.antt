pub mod Rows
pub mod Meaning
pub mod Changes
pub mod Opening
pub mod Sound
pub mod Parts
pub mod Apps
pub mod layout
