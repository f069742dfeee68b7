-- What queues use, with a container more or less, and things that are changed along a way.
pub mod Inserted
pub mod Used
pub mod Placing
pub mod Along
pub mod Marks
pub mod Sharers
pub mod Owners
pub mod Tabling
pub mod Lulls
pub mod Elsewhere
pub mod Untied
