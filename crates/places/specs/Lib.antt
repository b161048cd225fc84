pub mod Spots
pub mod Sized
pub mod Sources
pub mod Stands
pub mod Samplers
