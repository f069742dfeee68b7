-- What an event finds and leaves: applications and containers, the request that is chosen, replies.
pub mod Outcomes
pub mod Kept
pub mod Chosen
pub mod Changed
pub mod Found
pub mod Wanted
pub mod Lasting
pub mod Refused
pub mod Replies
