pub mod CatalogueLines
pub mod Catalogues
pub mod CatalogueRules
pub mod Fits
pub mod FitSteps
pub mod CatalogueSpelling
