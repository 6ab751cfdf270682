pub mod Plain
pub mod Finds
