pub mod Functions
pub mod Transfers
pub mod Demand3
