pub mod Words
pub mod Signed
pub mod Masks
pub mod Bools
pub mod Bytes
pub mod Iterate
pub mod Rows
pub mod Notation
