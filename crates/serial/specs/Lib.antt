pub mod Outputs
pub mod SpiEdges
pub mod I2cPins
