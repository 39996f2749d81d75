pub mod Values
pub mod Called
pub mod Lent
