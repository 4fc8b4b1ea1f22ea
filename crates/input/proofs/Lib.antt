pub mod Shallow
pub mod Numbers
pub mod Accepts
pub mod Judges
