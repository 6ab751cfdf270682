pub mod Sight
pub mod Json
pub mod Members
