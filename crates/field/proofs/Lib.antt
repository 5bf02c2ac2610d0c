pub mod Chain
pub mod Columns
pub mod Named
pub mod Told
pub mod Examples
