pub mod Runs
pub mod Quads
