pub mod Assigned
pub mod Sides
pub mod Edges
pub mod Types
pub mod Outputs
pub mod Whole
