pub mod Lines
pub mod Numbers
pub mod StrictLines
pub mod Ways
pub mod Grammars
pub mod Readings
pub mod Spellings
