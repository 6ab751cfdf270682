pub mod Loads
pub mod Libraries
pub mod Starting
pub mod Openings
