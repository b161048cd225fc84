-- The places of four lanes, and what is read there.
pub mod Cubes
pub mod Reading
