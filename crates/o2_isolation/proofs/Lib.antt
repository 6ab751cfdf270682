pub mod OwnRuns
pub mod SharedRuns
pub mod Linked
