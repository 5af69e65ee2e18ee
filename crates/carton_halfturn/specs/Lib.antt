pub mod Spans
pub mod Joints
pub mod Ranges
pub mod Values
pub mod Slopes
