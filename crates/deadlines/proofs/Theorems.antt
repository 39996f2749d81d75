pub mod Earliest
pub mod Waits
