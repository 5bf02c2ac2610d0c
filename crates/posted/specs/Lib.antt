pub mod Posted
pub mod Reading
pub mod Inner
