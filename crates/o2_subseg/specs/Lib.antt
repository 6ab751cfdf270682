pub mod Spots
pub mod Plans
pub mod Laws
