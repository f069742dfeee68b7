-- Each state is sound: its nodes, clocks, ids, and what is used in all.
pub mod Tracked
pub mod Apart
pub mod Steps
pub mod Ordered
pub mod Housed
pub mod Sound
pub mod Working
pub mod Bounds
