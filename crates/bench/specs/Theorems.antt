pub mod Text
pub mod Lawful
pub mod Loop
pub mod Whole
pub mod Starts
