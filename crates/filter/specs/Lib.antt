pub mod Mean
pub mod Filter
pub mod Operations
