pub mod Inversions
pub mod Sizes
pub mod Parts
pub mod FromFlat
pub mod Owed
pub mod Below
