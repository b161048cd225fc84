-- The TXR file and the listing of its levels, as definitions.
pub mod File
pub mod Digits
pub mod Listing
