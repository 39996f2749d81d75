pub mod Fields
pub mod History
