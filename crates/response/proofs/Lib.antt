pub mod Errors
pub mod Printing
pub mod Answers
