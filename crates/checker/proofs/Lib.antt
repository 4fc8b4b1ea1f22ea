pub mod Turns
pub mod Demands
pub mod Blanks
