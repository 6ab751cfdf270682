pub mod Faults
pub mod Room
pub mod Stops
pub mod Pieces
pub mod Turn
pub mod Ended
pub mod Lined
pub mod Slice
