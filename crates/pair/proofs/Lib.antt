pub mod Keys
pub mod Screening
