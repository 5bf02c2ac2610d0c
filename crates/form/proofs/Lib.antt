pub mod Filling
pub mod Ample
pub mod Examples
pub mod Said
