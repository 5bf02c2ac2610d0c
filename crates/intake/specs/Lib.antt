pub mod Limits
pub mod Intake
pub mod Reasons
pub mod Told
