pub mod Firsts
pub mod Tree
