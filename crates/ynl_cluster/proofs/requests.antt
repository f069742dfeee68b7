pub mod Members
pub mod Running
pub mod Live
pub mod Wanted
pub mod Order
pub mod First
pub mod Tables
