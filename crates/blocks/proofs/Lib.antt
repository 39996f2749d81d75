pub mod Buffer
pub mod Loop
