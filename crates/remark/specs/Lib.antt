pub mod Forms
pub mod Remarks
pub mod Wanted
