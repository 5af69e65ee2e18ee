pub mod Entries
pub mod Small
pub mod RowLists
pub mod TrayLists
pub mod Whole
