pub mod Facts
pub mod Table
pub mod Theorems
