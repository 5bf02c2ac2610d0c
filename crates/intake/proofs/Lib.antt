pub mod Walks
pub mod Texts
pub mod Sound
pub mod Why
pub mod Promises
pub mod Months
