pub mod Told
pub mod Kept
pub mod Shared
pub mod Wants
pub mod Worked
