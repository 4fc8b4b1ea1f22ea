pub mod Standing
pub mod Owed
