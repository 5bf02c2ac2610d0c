pub mod DayRuns
pub mod Inner
pub mod Cases
