pub mod StateLines
pub mod Sound
pub mod Texts
pub mod Parts
