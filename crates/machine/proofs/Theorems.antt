pub mod Put
pub mod Turns
pub mod Settles
pub mod Blocks
pub mod Whole
