pub mod Bands
pub mod Guides
pub mod Holding
pub mod Notes
pub mod Looks
