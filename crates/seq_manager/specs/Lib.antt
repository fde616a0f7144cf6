pub mod Calls
pub mod Extended
pub mod Laws
pub mod Numbering
pub mod Outputs
