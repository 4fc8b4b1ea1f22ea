pub mod Heads
pub mod Repeats
pub mod Nodes
pub mod Variants
pub mod Decls
pub mod Aliases
pub mod Passes
