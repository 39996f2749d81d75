pub mod Cell
pub mod Cycle
pub mod Theorems
