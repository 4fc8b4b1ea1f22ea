pub mod Model
pub mod Tables
pub mod Sets
pub mod Writes
pub mod Names
