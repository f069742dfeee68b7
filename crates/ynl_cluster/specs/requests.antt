pub mod Requests
pub mod Laws
pub mod First
pub mod Tables
