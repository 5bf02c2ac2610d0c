pub mod Apportion
pub mod Giving
pub mod Bar
pub mod Ties
