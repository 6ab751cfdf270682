pub mod Answers
pub mod Callers
pub mod Made
pub mod Limits
pub mod Sharing
pub mod Members
pub mod Remade
