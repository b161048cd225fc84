pub mod Holding
pub mod Together
