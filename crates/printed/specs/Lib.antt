pub mod Lines
pub mod Inputs
pub mod Commands
pub mod Printed
