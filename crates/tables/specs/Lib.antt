pub mod Heads
pub mod Entered
