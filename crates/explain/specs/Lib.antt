pub mod Explaining
pub mod Inner
