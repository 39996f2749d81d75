pub mod Masks
pub mod Bits
