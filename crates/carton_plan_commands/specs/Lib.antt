pub mod Check
pub mod Clearance
pub mod Flat
pub mod FlatPairs
pub mod Make
pub mod Plan
pub mod Pose
