pub mod Parts
pub mod Dates
pub mod Lengths
pub mod ReadBack
pub mod Examples
