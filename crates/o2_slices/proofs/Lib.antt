pub mod OverBus
pub mod Laters
pub mod Seats
pub mod Shown
