pub mod Kinds
pub mod Drawings
pub mod Made
