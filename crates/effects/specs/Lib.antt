pub mod Core
pub mod Onward
pub mod Walk
pub mod Marks
pub mod Theorems
