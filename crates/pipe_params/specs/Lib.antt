pub mod Pipe
pub mod Rows
