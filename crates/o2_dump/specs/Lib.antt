pub mod FileFields
pub mod SegmentEntries
pub mod FoundIndex
pub mod ProcessEntries
pub mod CoreImage
pub mod Readings
pub mod CoreBytes
