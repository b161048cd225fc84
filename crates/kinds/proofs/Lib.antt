pub mod Quads
pub mod Runs
pub mod Rows
pub mod Codes
pub mod Halves
pub mod AmidTexels
