pub mod Services
pub mod Selectors
