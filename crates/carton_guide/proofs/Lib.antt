pub mod Looks
pub mod Flaps
pub mod Fitting
pub mod Probes
pub mod WellHeld
pub mod World
pub mod Near
pub mod Banded
