pub mod Texts
pub mod Held
pub mod Rows
pub mod Judging
pub mod Left
