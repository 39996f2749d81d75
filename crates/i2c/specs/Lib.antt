pub mod Bus
pub mod Engine
pub mod Transfers
pub mod Target
pub mod Answers
