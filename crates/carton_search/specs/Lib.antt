pub mod Clear
pub mod Paths
pub mod Ends
pub mod Known
pub mod Knowledge
pub mod Turns
