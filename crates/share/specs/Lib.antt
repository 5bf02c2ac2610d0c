pub mod Sharing
pub mod Limits
pub mod Forms
pub mod Verdict
pub mod Without
pub mod Inner
