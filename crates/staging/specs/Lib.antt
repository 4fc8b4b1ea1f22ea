pub mod Batches
pub mod Steps
