pub mod Lines
pub mod Commands
pub mod Texts
pub mod Written
pub mod Inputs
pub mod Digits
pub mod Fractions
pub mod Example
