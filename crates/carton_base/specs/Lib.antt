pub mod Rounding
pub mod Fractions
pub mod Moments
pub mod Directions
pub mod Grid
pub mod Steps
