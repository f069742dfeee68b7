pub mod Clean
pub mod RoundTrip
pub mod OneLine
pub mod InOrder
pub mod TextReads
pub mod Clocked
pub mod Ranged
pub mod Parts
