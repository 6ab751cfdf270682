pub mod Drops
pub mod Ended
pub mod LetsGo
