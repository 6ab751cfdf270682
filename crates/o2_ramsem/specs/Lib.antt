pub mod Ruled
pub mod Calls
