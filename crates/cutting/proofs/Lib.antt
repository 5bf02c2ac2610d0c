pub mod Cases
pub mod Desk
pub mod Exact
pub mod Story
