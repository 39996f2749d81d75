pub mod Phase
pub mod Stage
