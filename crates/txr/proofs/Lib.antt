pub mod Example
pub mod Files
pub mod Listings
pub mod Reading
pub mod Spelling
