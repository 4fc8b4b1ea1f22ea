-- Laws that belong to no one function.
pub mod Laws
pub mod Places
pub mod BasicKinds
pub mod Classes
pub mod Rules
pub mod PortLaws
pub mod StructLaws
pub mod IteratorLaws
pub mod Onward
pub mod Walks
