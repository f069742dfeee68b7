pub mod saving
pub mod restoring
