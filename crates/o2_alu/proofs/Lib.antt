pub mod Bounds
pub mod FlagLaws
pub mod SumLaws
pub mod SignLaws
pub mod ShiftLaws
pub mod RotateLaws
pub mod ControlLaws
pub mod DecimalLaws
