pub mod Members
pub mod Stops
pub mod Moves
pub mod Falling
