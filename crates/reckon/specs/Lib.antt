pub mod Reckoning
pub mod Inner
pub mod Cases
