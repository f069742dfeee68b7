-- Maxima and shares.
pub mod Within
