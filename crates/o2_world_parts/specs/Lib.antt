pub mod Causes
pub mod Keys
pub mod Edits
pub mod Pairs
pub mod Names
pub mod Layouts
pub mod Effects
