pub mod Closed
pub mod Fits
