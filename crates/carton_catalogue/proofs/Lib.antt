pub mod Rows
pub mod Kept
pub mod KeptCatalogues
pub mod Misfits
pub mod Bands
pub mod OneFit
pub mod SameFit
pub mod CataloguesSpelled
