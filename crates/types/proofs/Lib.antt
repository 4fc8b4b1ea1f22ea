-- Laws that belong to no one function. Assumes nothing.
pub mod Truths
pub mod Values
pub mod Places
pub mod Seen
pub mod Tries
pub mod Follows
pub mod Literals
