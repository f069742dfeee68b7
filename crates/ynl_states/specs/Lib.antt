pub mod Measure
pub mod Text
pub mod Reading
