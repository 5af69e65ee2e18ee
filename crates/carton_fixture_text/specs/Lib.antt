pub mod FixtureRules
pub mod FixtureTexts
