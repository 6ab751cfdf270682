pub mod Fields
pub mod HeldRead
pub mod ProcessesRead
pub mod SegmentsRead
pub mod ImageRead
