pub mod Each
pub mod Document
pub mod EachMember
pub mod Decimals
pub mod ByName
pub mod Choice
pub mod Words
