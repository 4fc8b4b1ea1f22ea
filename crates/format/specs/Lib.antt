pub mod File
pub mod Output
pub mod Buffers
