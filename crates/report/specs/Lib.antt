pub mod Totals
pub mod Texts
pub mod Forms
