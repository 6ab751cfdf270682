pub mod Amounts
pub mod Among
pub mod Departed
pub mod Fitting
pub mod Placing
pub mod Clocks
pub mod Unheld
pub mod Movings
mod Reading
mod Turns
