pub mod Product
pub mod Inner
