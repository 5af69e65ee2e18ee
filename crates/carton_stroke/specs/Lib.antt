pub mod Clear
pub mod Notes
pub mod Nearness
pub mod Steps
