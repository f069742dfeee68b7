pub mod Totals
pub mod Ledger
pub mod Meaning
pub mod Changes
pub mod Bounded
pub mod Small
pub mod Opening
