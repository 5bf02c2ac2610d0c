pub mod Fractions
pub mod Ramping
pub mod Bytes
pub mod Outcomes
pub mod Inner
pub mod Cases
