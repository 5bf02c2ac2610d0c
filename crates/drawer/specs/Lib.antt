pub mod Told
pub mod Stale
pub mod Refused
pub mod Nothing
pub mod Apart
pub mod Inner
