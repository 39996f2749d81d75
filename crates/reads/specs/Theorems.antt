pub mod Pairs
pub mod Until
