pub mod Criteria
pub mod Observations
pub mod State
pub mod Pin
pub mod Theorems
