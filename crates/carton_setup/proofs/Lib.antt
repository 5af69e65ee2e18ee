pub mod Creases
pub mod OneSetup
pub mod OneSupply
pub mod Outcomes
