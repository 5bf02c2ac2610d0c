pub mod Equations
pub mod Finding
