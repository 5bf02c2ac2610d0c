pub mod Tabs
pub mod Forward
pub mod Outcome
pub mod Verdict
pub mod Trees
pub mod Cases
pub mod Inner
