pub mod Frames
pub mod Uses
pub mod Quiet
