pub mod Rows
pub mod Signs
pub mod Promises
