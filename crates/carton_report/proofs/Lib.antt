pub mod Nearer
pub mod Certified
