pub mod Names
pub mod Rows
pub mod World
pub mod Sets
pub mod Writes
