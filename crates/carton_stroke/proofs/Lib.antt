pub mod Noted
pub mod Passed
pub mod Placements
pub mod Rooted
pub mod Seen
