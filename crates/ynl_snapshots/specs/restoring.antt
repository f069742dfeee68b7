pub mod Taking
pub mod Placing
pub mod Telling
