pub mod Text
pub mod Line
pub mod Run
pub mod Block
pub mod Theorems
