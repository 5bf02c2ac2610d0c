pub mod Crowded
pub mod Turning
pub mod Worked
pub mod Every
pub mod Closing
