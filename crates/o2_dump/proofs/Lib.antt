pub mod Joining
pub mod Ranges
