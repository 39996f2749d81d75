pub mod Put
pub mod Machine
pub mod Block
pub mod Pieces
