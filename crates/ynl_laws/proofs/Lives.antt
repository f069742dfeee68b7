-- Applications from their submission to their end: homes, asks, and what is left of them.
pub mod Homes
pub mod Entitled
pub mod Asks
pub mod InTurn
pub mod Finished
