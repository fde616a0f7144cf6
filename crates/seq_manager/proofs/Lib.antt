pub mod Distances
pub mod GoingOn
pub mod Modulo
pub mod Places
pub mod Running
pub mod Steps
