pub mod Firsts
pub mod Mapped
pub mod Ways
pub mod Spots
pub mod Asking
