-- What the irradiance crate's own parts hold and promise.
pub mod Holding
pub mod Turns
