pub mod lows
pub mod lane
pub mod table
pub mod firsts
