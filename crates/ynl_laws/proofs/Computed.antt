-- What the definitions compute of given lists of events.
pub mod Opened
pub mod Rows
pub mod Views
pub mod Examples
