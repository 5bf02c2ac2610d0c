pub mod First
pub mod Judging
pub mod Streaming
pub mod Exact
pub mod Following
pub mod Promises
pub mod Texts
pub mod Examples
