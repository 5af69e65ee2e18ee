pub mod Dielines
pub mod Parting
pub mod HalfTurns
pub mod Moves
pub mod Points
pub mod Turning
