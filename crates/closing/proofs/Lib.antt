pub mod Settled
pub mod Story
