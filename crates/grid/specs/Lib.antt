pub mod Grid
pub mod Told
pub mod Meaning
pub mod Alone
pub mod Integer
