pub mod Cluster
pub mod Whole
pub mod Finishing
pub mod Leaving
pub mod uses
pub mod requests
pub mod ledger
pub mod seating
