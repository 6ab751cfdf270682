pub mod Order
pub mod Frames
pub mod Holding
pub mod Segments
pub mod Worlds
