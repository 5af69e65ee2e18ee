pub mod Answering
pub mod Commands
pub mod Determined
pub mod Ends
pub mod Fixtures
pub mod Headline
pub mod Reaching
pub mod Sound
