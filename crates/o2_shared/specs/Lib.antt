pub mod NameOrder
pub mod Shares
pub mod Texts
pub mod Frames
