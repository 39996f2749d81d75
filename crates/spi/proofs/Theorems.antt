pub mod Frames
pub mod Reads
pub mod Broken
pub mod Silence
