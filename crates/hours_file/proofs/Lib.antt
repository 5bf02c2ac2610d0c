pub mod Brought
pub mod Promises
