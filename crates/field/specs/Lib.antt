pub mod Field
pub mod Columns
pub mod Record
pub mod Inner
