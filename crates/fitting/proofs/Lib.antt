pub mod Findings
pub mod Walks
pub mod Cases
pub mod Turns
pub mod Exactly
pub mod Given
pub mod Promises
