pub mod Serving
pub mod Checking
pub mod Proposals
pub mod reading
