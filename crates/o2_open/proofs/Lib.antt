pub mod Telling
pub mod Stepping
pub mod Unstarted
pub mod Benches
pub mod Asking
