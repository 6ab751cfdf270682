pub mod BitTests
pub mod Choices
pub mod Places
