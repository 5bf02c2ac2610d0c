pub mod ReadBack
pub mod Cells
pub mod Determined
pub mod Example
