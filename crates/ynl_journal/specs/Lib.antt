pub mod Journal
pub mod Audits
pub mod StartFields
pub mod BookFields
pub mod Promises
pub mod Same
