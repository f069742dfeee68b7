pub mod Dealt
pub mod Faults
pub mod Handed
pub mod Sessions
