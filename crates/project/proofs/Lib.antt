pub mod Models
pub mod Lines
pub mod Closed
pub mod Answers
pub mod Whole
pub mod Demands
pub mod Constants
pub mod Nodes
