pub mod Numbers
pub mod Shifts
pub mod Spots
pub mod Depths
pub mod Boxes
pub mod Timed
pub mod Extended
