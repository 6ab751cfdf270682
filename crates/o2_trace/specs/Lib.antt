pub mod Bytes
pub mod Lines
pub mod Registers
pub mod Json
pub mod Exceptions
