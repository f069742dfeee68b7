pub mod Numbers
pub mod Rows
pub mod Linking
pub mod Clocks
pub mod Placing
pub mod Removing
