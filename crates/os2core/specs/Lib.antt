pub mod Adjoining
pub mod Columns
