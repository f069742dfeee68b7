pub mod containers
pub mod nodes
pub mod apps
pub mod submissions
pub mod users
