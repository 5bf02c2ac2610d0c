pub mod Names
pub mod Entries
pub mod Judging
pub mod Filling
pub mod Promises
pub mod Examples
