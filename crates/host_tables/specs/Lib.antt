pub mod Kept
pub mod LookUps
