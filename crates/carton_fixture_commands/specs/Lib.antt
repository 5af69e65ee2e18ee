pub mod Fixture
pub mod Notes
pub mod Verify
