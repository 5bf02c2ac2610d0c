pub mod Cases
pub mod Done
pub mod Olds
