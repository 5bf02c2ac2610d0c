pub mod Fitting
pub mod Inner
pub mod Told
pub mod Exactly
