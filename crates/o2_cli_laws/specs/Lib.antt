pub mod Files
pub mod FirstOnly
pub mod Commands
pub mod Texts
pub mod TopCall
