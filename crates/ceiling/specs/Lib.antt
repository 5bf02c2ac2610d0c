pub mod Ceiling
pub mod Forms
pub mod Inner
pub mod Verdict
