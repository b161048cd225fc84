pub mod Rows
pub mod Levels
pub mod Right
