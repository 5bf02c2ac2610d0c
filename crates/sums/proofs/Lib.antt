pub mod Written
pub mod Table
pub mod Numbered
pub mod Crowded
pub mod Turning
pub mod Every
pub mod Closing
pub mod AfterClosing
