-- The ranges that the lower crate's functions ask.
pub mod Ends
pub mod Digits
pub mod Offsets
pub mod Tables
