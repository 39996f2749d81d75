pub mod Functions
pub mod Demand3
pub mod Delivered
pub mod Scripts
pub mod Impostors
pub mod Examples
