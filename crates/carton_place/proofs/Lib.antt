pub mod Numbers
pub mod About
pub mod Steps
pub mod Ramps
pub mod Lists
pub mod Starts
pub mod Dependence
pub mod Still
