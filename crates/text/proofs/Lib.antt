pub mod Names
pub mod Statements
pub mod ReadsBack
pub mod Printed
pub mod Books
