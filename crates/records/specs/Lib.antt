pub mod Places
pub mod Tables
pub mod Ranges
pub mod Stands
