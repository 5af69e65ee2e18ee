pub mod Choices
pub mod Fixtures
pub mod Answers
pub mod SlackGood
pub mod Steps
