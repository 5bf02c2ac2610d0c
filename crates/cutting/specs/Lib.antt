pub mod Parts
pub mod Cutting
pub mod Outcomes
