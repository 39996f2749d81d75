pub mod Reads
pub mod Theorems
