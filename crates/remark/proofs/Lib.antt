mod Cases
pub mod Wanted
