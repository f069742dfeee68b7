pub mod Checking
pub mod Jobs
pub mod Living
