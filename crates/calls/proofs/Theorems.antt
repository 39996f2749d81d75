pub mod Values
pub mod Found
pub mod Order
pub mod Exactly
pub mod Left
