pub mod Loop
pub mod Message
