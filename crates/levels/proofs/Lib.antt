pub mod Starts
pub mod Walks
pub mod Rows
pub mod Cuts
pub mod Crosses
pub mod Checks
pub mod Firsts
