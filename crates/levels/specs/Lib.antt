pub mod Cuts
pub mod Crosses
pub mod Starts
pub mod Pictures
