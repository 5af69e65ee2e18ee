pub mod Axes
pub mod Beyond
pub mod Corners
pub mod Reaches
pub mod Spots
pub mod Starts
pub mod Ranges
