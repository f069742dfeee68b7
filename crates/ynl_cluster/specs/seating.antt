pub mod Seating
pub mod Steps
pub mod Laws
