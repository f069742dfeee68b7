pub mod Laws
pub mod Lows
pub mod Order
pub mod TestLemmas
pub mod Tests
pub mod UserOrder
pub mod Users
