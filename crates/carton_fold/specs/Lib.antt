pub mod Entries
pub mod Values
pub mod Vertices
pub mod Edges
pub mod Letters
pub mod Faces
pub mod Angles
pub mod Dieline
