pub mod HourFaults
pub mod Words
pub mod Inner
