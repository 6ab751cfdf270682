pub mod AtOnce
pub mod Decimal
