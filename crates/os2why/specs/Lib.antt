pub mod Imports
pub mod Judges
pub mod Sentences
pub mod Wordings
