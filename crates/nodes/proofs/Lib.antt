pub mod Paths
pub mod Opens
pub mod Clears
pub mod Closes
pub mod Equations
pub mod Body
