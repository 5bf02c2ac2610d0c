pub mod Keys
pub mod Limits
pub mod Bytes
pub mod Exact
pub mod Determined
