pub mod Standing
pub mod Keys
pub mod Joined
pub mod Whole
pub mod Inner
