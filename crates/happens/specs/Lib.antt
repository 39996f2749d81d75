pub mod Courses
pub mod Happens
pub mod Theorems
