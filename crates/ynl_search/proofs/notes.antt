mod Requests
mod Rooms
mod Stays
mod Lasting
mod Once
mod Facts
pub mod Found
pub mod Listed
pub mod LaneOf
pub mod Least
mod Keeping
mod Leaving
mod GuestsStay
mod GuestKeeping
mod Elsewhere
pub mod NodesKeeping
mod Forgetting
mod Rowwise
mod Told
