pub mod Steps
pub mod Cases
pub mod Arguments
pub mod ItemLaws
pub mod ValueLaws
pub mod ArrayLaws
pub mod Sides
pub mod Iterators
