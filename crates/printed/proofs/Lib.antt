pub mod Alike
pub mod Bytes
pub mod Printed
pub mod Examples
pub mod Theorems
