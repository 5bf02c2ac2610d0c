pub mod Hours
pub mod Name
pub mod Stream
pub mod Outcomes
pub mod Inner
