pub mod Settling
pub mod Outcomes
pub mod Inner
pub mod Lowered
pub mod Cutting
