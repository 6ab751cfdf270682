pub mod Told
pub mod Puts
pub mod Fronts
pub mod Fits
pub mod Apart
pub mod Named
