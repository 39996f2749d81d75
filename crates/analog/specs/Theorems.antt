pub mod Bounds
pub mod Common
