pub mod Shown
pub mod Verdicts
pub mod Sharing
pub mod Outcomes
pub mod Called
pub mod Worked
pub mod Bare
