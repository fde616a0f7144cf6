pub mod Frames
pub mod Reading
pub mod Calls
pub mod Laws
pub mod Rows
