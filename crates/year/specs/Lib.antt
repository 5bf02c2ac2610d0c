pub mod Year
pub mod Verdict
pub mod Present
pub mod Every
pub mod Inner
