pub mod Reading
pub mod ReadingReplies
pub mod Writing
pub mod Sound
