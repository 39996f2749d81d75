pub mod Operation
pub mod Record
pub mod Image
pub mod Mode
pub mod RegisterReads
pub mod Select
