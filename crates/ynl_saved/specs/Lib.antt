pub mod Saving
pub mod Handing
pub mod Restoring
pub mod Asks
pub mod Lines
pub mod Laws
