pub mod Pieces
pub mod Files
pub mod Written
pub mod Example
pub mod Fill
pub mod Callers
pub mod Room
pub mod Digits
