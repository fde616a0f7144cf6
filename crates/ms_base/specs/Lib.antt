pub mod Code
pub mod Id
pub mod IdRows
pub mod Kinds
pub mod Name
pub mod NameRows
pub mod Outcome
pub mod Words
