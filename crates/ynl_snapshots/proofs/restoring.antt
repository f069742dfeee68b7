pub mod Taken
pub mod Marks
pub mod Known
pub mod Clocks
pub mod Stamps
pub mod Coming
pub mod Owners
pub mod Finishing
pub mod NewAsks
pub mod Started
mod Roles
mod Room
mod Lasts
mod Placed
mod Cells
mod Tells
