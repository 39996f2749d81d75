pub mod Turn
pub mod Loop
pub mod Live
pub mod Example
