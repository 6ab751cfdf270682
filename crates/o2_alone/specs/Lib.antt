pub mod Renaming
pub mod Events
pub mod Alone
pub mod Keeping
pub mod Isolation
pub mod Worked
