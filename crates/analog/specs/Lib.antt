pub mod Round
pub mod Decay
pub mod Axis
pub mod Theorems
