pub mod Joints
pub mod Chains
pub mod Trees
pub mod Cartons
pub mod Same
pub mod Rules
pub mod Steps
pub mod Answers
