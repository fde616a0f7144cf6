pub mod Gives
pub mod Values
pub mod Limits
pub mod Options
pub mod Laws
pub mod Rows
