pub mod Bytes
pub mod Verdict
pub mod Without
pub mod Inner
