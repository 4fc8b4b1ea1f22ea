-- Laws that belong to no one function.
pub mod Orders
pub mod Pieces
pub mod Checks
pub mod Counts
