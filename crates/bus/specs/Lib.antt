pub mod I2c
pub mod Spi
pub mod Writes
pub mod Theorems
