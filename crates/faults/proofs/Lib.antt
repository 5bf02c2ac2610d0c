pub mod Head
pub mod Judging
pub mod Texts
pub mod Walking
pub mod Promises
pub mod Outputs
