pub mod Numbers
pub mod Judging
pub mod Meaning
pub mod Inner
pub mod Files
