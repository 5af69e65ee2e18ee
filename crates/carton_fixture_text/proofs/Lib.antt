pub mod FixtureEntries
pub mod FixturesRead
pub mod FixturesWritten
pub mod OneSpelling
