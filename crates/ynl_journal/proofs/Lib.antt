pub mod Longer
pub mod Booked
pub mod Shown
pub mod Joined
pub mod Same
