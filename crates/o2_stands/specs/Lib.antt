pub mod Parts
pub mod Runs
pub mod Stands
pub mod Tidies
pub mod Knows
pub mod Views
pub mod Moves
pub mod Sums
