pub mod Lengths
pub mod Kinds
pub mod Automatic
pub mod Theorems
