pub mod Reading
pub mod Sound
pub mod Trees
pub mod Writing
