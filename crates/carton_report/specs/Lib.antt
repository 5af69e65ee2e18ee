pub mod Clearances
pub mod Tightest
