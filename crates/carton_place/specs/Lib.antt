pub mod Dependence
pub mod Held
pub mod Sizes
pub mod Swings
pub mod States
