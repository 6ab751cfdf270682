pub mod Members
pub mod Growth
pub mod Cuts
pub mod Resized
pub mod Frames
