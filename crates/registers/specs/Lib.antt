pub mod Map
pub mod Access
pub mod Codes
pub mod Theorems
