pub mod Judged
pub mod Implied
