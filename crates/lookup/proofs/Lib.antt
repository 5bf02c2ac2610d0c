pub mod Places
pub mod Lookups
pub mod Determined
pub mod Story
pub mod Example
