pub mod Places
pub mod Schedule
