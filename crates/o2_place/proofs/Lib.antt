pub mod MarkLemmas
pub mod RangeLemmas
pub mod SpotLemmas
pub mod Sums
