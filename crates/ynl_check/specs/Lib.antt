pub mod Checked
pub mod Faults
pub mod Objects
pub mod Pieces
pub mod Sentences
pub mod Tree
