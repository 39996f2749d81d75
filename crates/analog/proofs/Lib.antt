pub mod Held
pub mod Words
pub mod Halvings
pub mod Theorems
