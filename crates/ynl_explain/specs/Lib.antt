pub mod Objects
pub mod Pieces
pub mod Sentences
pub mod Told
