pub mod Chosen
pub mod Going
