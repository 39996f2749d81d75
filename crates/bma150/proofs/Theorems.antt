pub mod Values
pub mod Added
pub mod Refused
pub mod Starts
pub mod Marks
pub mod Acts
