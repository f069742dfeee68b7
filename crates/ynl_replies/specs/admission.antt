pub mod Named
pub mod Admitted
pub mod Asks
