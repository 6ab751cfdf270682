pub mod Needs
pub mod Told
pub mod Learned
pub mod Trials
pub mod Reads
