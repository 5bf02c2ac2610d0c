pub mod Register
pub mod Series
pub mod Meaning
