pub mod Awaits
pub mod Keeping
pub mod Names
pub mod Rows
pub mod Settling
pub mod Times
pub mod Watching
