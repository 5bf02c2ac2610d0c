pub mod Laws
pub mod Order
pub mod Loops
pub mod Turns
pub mod InTurn
pub mod Rank
pub mod ByRank
pub mod Promises
