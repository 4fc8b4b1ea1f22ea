pub mod Input
pub mod Depths
pub mod Accepted
