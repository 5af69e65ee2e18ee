pub mod Bodies
pub mod Boxes
pub mod HalfSpaces
pub mod Shifts
pub mod Spots
pub mod Depths
pub mod Spans
pub mod Extents
