pub mod Supply
pub mod Due
