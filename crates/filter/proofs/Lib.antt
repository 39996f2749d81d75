pub mod Sums
pub mod Codes
pub mod Floor
pub mod Answers
