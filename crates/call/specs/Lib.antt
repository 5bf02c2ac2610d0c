pub mod Key
pub mod Revising
pub mod Services
pub mod Service
pub mod Limits
pub mod Layout
pub mod Inner
