pub mod Slices
pub mod Laters
