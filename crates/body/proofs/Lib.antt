pub mod Told
pub mod Heads
pub mod Walks
pub mod Writing
pub mod Scans
pub mod Pres
pub mod Collects
pub mod Sides
