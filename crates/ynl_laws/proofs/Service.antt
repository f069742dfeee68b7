-- The order of service, the choice, and proposals of it.
pub mod OrderTotal
pub mod Least
pub mod Untied
pub mod First
pub mod Decided
pub mod Descent
pub mod Proposed
