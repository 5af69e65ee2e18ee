pub mod Answers
pub mod Files
pub mod Fixtures
pub mod Headline
pub mod Reading
pub mod Saying
pub mod Statuses
