pub mod StandsFor
pub mod Rows
