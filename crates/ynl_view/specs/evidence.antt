pub mod Kept
pub mod Evidence
pub mod Flaws
pub mod Trials
pub mod Promises
