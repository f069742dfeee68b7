-- A tenant with a partition of its own.
pub mod Restricted
pub mod Alone
pub mod Own
pub mod OwnOpening
pub mod Mirrored
pub mod Firm
pub mod Follows
pub mod FollowsNodes
pub mod FollowsQueues
pub mod FollowsRequests
pub mod FollowsPlaces
pub mod FollowsCommits
pub mod FollowsEvents
pub mod Isolated
