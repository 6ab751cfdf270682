mod Finds
mod Walks
pub mod Verbs
