pub mod Kinds
pub mod Rows
pub mod Table
pub mod Words
pub mod Commands
pub mod Asked
