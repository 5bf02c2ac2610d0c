pub mod Forms
pub mod Sums
pub mod Texts
