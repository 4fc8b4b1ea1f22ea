pub mod Value
pub mod Place
pub mod Scope
pub mod Number
