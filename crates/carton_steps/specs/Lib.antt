pub mod Steps
pub mod Estimates
