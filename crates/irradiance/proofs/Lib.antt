pub mod Roots
pub mod Spans
pub mod Texels
pub mod Turns
pub mod Each
pub mod Terms
pub mod Finite
pub mod Black
